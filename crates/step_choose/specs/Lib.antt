pub mod Settings
pub mod Impulses
pub mod Choice
pub mod Chosen
pub mod StepWay
