pub mod Beside
pub mod Certifying
pub mod Enough
pub mod Kept
