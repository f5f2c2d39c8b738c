pub mod Launches
pub mod Means
pub mod Shifts
pub mod Tallies
