pub mod Stock
pub mod Stones
