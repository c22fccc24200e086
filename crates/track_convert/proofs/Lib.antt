pub mod Stored
pub mod Sources
pub mod Caused
pub mod Told
pub mod Ended
