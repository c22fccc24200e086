pub mod Told
pub mod Asked
pub mod Views
pub mod Slabs
