pub mod Formats
pub mod Conversion
pub mod Finding
pub mod Endings
pub mod Causes
pub mod Headline
