pub mod NoEnds
pub mod Beginnings
pub mod Counts
pub mod Ran
pub mod OfCubes
pub mod Seven
