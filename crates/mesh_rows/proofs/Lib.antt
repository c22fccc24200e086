pub mod Searching
pub mod Parts
pub mod FreshRows
pub mod Inserted
pub mod MadeRows
pub mod Balanced
