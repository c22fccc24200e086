pub mod JobLogs
mod Again
mod CauseLemmas
mod Agreeing
mod Scaled
mod ReadBack
mod TopLemmas
mod Completeness
mod SurfaceSteps
mod RisingFaces
mod Marking
mod FirstSides
mod FaceSums
