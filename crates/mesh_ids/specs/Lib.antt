pub mod NewIds
pub mod Laws
