pub mod Few
pub mod Moving
