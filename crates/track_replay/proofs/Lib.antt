mod Storings
pub mod WantedLines
mod SoFar
mod Whole
mod AllStored
mod Ended
mod ValidMeshes
