pub mod Smallest
pub mod Shares
pub mod Elements
pub mod Placed
pub mod Resting
pub mod Fives
