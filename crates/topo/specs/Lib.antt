pub mod Texts
pub mod Asked
pub mod Answered
pub mod Shipped
pub mod ShippedBand
