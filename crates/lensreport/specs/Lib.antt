pub mod JsonData
pub mod Paraxial
pub mod Spots
pub mod Totals
