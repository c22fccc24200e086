pub mod Replaying
pub mod Limits
