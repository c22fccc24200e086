pub mod Paths
pub mod Moving
pub mod Bounds
pub mod Pairing
pub mod Frames
pub mod FaceBoxes
pub mod Laws
