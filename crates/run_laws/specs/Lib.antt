pub mod Names
pub mod Answers
pub mod Lines
pub mod Texts
pub mod Directives
pub mod Inputs
pub mod Whole
