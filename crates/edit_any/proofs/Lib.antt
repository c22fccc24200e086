pub mod Asked
pub mod Left
pub mod Midpoints
pub mod SolidVertices
pub mod Answered
