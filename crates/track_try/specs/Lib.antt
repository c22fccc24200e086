pub mod Summary
pub mod Told
