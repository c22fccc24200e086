pub mod LogJob
pub mod Taking
pub mod Ending
pub mod Refused
pub mod Telling
pub mod Passing
pub mod Fetching
pub mod Preparing
