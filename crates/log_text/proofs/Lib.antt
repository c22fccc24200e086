pub mod LineLaws
pub mod Spaced
