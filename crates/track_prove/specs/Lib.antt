pub mod Judged
pub mod Proving
pub mod Verifying
pub mod Headline
pub mod Laws
pub mod Taking
pub mod Doing
