pub mod RowSamples
pub mod Samples
