pub mod PlayMarks
pub mod Plays
pub mod FreshFaces
