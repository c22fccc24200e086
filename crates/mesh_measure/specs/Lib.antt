pub mod Volume
pub mod Shape
pub mod Walk
pub mod Round
pub mod Laws
pub mod Above
pub mod Ahead
pub mod Components
