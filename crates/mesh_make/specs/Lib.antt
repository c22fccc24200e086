pub mod Cubes
pub mod CubeSteps
pub mod Laws
