pub mod Scaffold
pub mod Edges
pub mod Beside
pub mod Required
pub mod Classes
pub mod Reasons
pub mod Clauses
pub mod Laws
