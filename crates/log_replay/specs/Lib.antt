pub mod Replay
pub mod OfPass
pub mod Safe
pub mod Moves
pub mod Again
pub mod Laws
