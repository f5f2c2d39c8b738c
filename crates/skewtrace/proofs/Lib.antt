pub mod Counts
pub mod Fillings
pub mod Widths
