pub mod UserDesk
