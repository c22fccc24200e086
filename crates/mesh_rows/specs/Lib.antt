pub mod Rows
pub mod Making
pub mod Search
pub mod Faults
