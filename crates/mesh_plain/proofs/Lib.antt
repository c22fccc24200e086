mod FieldNaming
mod Copies
