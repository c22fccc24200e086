pub mod Cuts
pub mod Lines
pub mod Written
pub mod WordLaws
pub mod Ends
