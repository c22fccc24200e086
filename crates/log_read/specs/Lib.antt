pub mod Fields
pub mod Values
pub mod EditLines
pub mod Reading
pub mod Laws
pub mod Ahead
