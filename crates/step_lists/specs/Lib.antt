pub mod Among
pub mod EndPositions
pub mod Compared
