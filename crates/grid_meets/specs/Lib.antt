pub mod Segments
pub mod Beyond
