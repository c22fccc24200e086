pub mod Growing
pub mod Ranges
pub mod Pieces
pub mod OneCube
pub mod Shape
pub mod Standing
pub mod Table
pub mod Clear
