-- Paraxial rays, first-order values and Seidel sums: equations and rows.
pub mod FirstOrder
pub mod FirstOrderRows
pub mod Losses
pub mod Seidel
pub mod SeidelRows
pub mod Trace
pub mod TraceRows
