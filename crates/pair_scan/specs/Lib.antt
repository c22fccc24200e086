pub mod Scan
pub mod Failed
pub mod Found
pub mod Lookup
pub mod Named
pub mod Solids
pub mod Moves
pub mod Answers
