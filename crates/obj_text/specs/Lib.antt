pub mod Obj
pub mod Views
pub mod Written
pub mod ListsWritten
pub mod Laws
pub mod ListLaws
