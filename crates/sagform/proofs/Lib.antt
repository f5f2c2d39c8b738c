pub mod Norms
pub mod Samples
