pub mod Asked
pub mod Kept
pub mod Told
pub mod OfPairs
pub mod Beyond
pub mod Picked
pub mod SlabTrees
pub mod Still
