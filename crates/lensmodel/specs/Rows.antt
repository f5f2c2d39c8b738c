-- The rows that are evaluated, over the operations of any arithmetic.
pub mod Bending
pub mod Cells
pub mod Constants
pub mod Crossing
pub mod Hit
pub mod Index
pub mod Laws
pub mod Outcome
pub mod Preparation
pub mod Ray
pub mod Sag
pub mod SlopeRounds
pub mod Spans
pub mod Spot
pub mod Start
