pub mod Drop
pub mod Laws
