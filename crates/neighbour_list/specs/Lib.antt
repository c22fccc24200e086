pub mod Near
pub mod Heights
pub mod FivePaths
pub mod Drift
pub mod Widened
pub mod Clusters
pub mod Listed
pub mod Laws
