pub mod Labelled
pub mod Trees
pub mod Placing
pub mod FoundPlaces
pub mod Orders
pub mod Answered
pub mod Meant
pub mod SmallBoxes
