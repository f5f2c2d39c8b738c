-- What a step, a row and a spot claim of every chain.
pub mod Closeness
pub mod Enclosure
pub mod RowClaims
pub mod SpotClaims
