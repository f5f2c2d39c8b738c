pub mod Changes
pub mod Tags
pub mod Lens
pub mod Stops
pub mod Readers
pub mod File
