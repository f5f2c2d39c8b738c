-- What is printed, byte by byte.
pub mod Book
pub mod FaultText
pub mod FirstOrder
pub mod Index
pub mod JsonRows
pub mod Lens
pub mod Pieces
pub mod Rows
pub mod SeidelSums
