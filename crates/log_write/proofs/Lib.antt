pub mod WrittenLines
pub mod SaidLines
pub mod Keeping
