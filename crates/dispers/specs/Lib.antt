pub mod Checks
pub mod IndexAt12
pub mod Limits
pub mod Picked
