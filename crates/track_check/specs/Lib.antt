pub mod Check
pub mod Finding
pub mod Endings
pub mod Causes
pub mod Headline
