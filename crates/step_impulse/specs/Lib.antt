pub mod Axes
pub mod Impulse
pub mod Passes
pub mod Laws
