pub mod Covered
pub mod OfMesh
