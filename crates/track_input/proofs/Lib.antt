pub mod Sources
pub mod ReadLemmas
mod PrepareLemmas
mod Walking
pub mod Walks
pub mod Among
pub mod Readings
