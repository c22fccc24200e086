pub mod Undoable
pub mod Entries
pub mod Boxed
pub mod Journal
