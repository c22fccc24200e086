pub mod Tries
pub mod Again
