pub mod Shape
pub mod Balance
pub mod Doubled
pub mod Listing
pub mod ShapeFaults
pub mod Laws
pub mod Numbered
pub mod Coded
