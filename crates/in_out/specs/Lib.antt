pub mod InOut
