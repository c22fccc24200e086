pub mod Plain
pub mod FieldNames
pub mod Copying
