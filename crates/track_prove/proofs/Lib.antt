mod Judging
mod Motions
mod Lines
mod Certificates
mod ProvedLines
mod VerifiedLines
mod Prepare
pub mod Alike
mod Endings
mod OneText
mod Whole
