pub mod Wanted
pub mod Texts
pub mod Storing
pub mod Headline
pub mod Laws
