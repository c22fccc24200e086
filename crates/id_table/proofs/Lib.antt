pub mod Copies
pub mod StoneLaws
pub mod BuriedItems
