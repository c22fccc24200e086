pub mod Walks
pub mod Faces
pub mod Numbered
pub mod Near
pub mod NearFaces
pub mod Widened
pub mod Apart
pub mod Boxed
mod Listed
