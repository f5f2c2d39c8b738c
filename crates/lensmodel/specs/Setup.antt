-- The setup of a trace and its values.
pub mod Comparison
pub mod Launches
pub mod Media
pub mod Ranges
pub mod Ratio
pub mod Values
pub mod WellFormed
pub mod WholeFaults
pub mod Zones
