pub mod ToldTexts
pub mod PrepareLemmas
mod TestedSteps
pub mod Endings
pub mod ValidInputs
