pub mod Benches
pub mod Climbs
pub mod Kinds
pub mod Room
pub mod RowSamples
pub mod Samples
