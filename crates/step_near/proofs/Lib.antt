pub mod Halves
pub mod Motion
pub mod Fitting
pub mod Passing
