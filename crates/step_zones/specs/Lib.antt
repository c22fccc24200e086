pub mod Zones
pub mod Chains
pub mod Rounds
pub mod Ranks
pub mod Totals
pub mod Zoned
pub mod Laws
