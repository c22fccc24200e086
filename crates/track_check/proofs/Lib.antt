pub mod Listed
pub mod Sources
pub mod Firsts
pub mod Caused
pub mod Ended
