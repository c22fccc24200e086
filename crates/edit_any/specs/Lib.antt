pub mod Dispatch
pub mod SolidVertices
pub mod Answered
pub mod Midpoints
