-- The equations of a ray, and its chains.
pub mod Bending
pub mod Chain
pub mod Chains
pub mod Crossing
pub mod Dispersion
pub mod Residual
pub mod Start
