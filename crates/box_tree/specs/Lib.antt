pub mod Labels
pub mod Overlapping
pub mod Nodes
pub mod Order
pub mod Found
