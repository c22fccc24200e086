pub mod Link
pub mod Kept
