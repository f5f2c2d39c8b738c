pub mod Chains
pub mod Encloses
pub mod Landings
pub mod Sums
