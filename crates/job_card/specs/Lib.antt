pub mod Text
pub mod Laws
pub mod Differences
pub mod Reading
pub mod Marked
