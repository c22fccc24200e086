pub mod Handles
pub mod InOrder
pub mod Tested
pub mod Answered
