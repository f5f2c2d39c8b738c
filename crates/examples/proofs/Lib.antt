pub mod Along
pub mod Axis
pub mod Bowl
pub mod Boxes
pub mod ComputedAspheres
pub mod ComputedBoxes
pub mod ComputedEdges
pub mod ComputedFolds
pub mod ComputedForms
pub mod ComputedRounds
pub mod ComputedRows
pub mod ComputedSides
pub mod ComputedTies
pub mod ComputedWidths
pub mod Concrete
pub mod ExactChains
pub mod Exchange
mod FirstOrderExamples
pub mod Flat
pub mod Fronts
pub mod Height
pub mod JobFiles
mod JoiningExamples
mod LaunchExamples
pub mod LensFiles
pub mod Level
pub mod Mirrors
pub mod Near
pub mod Parabola
mod PrescriptionExamples
pub mod Reach
pub mod Residuals
pub mod Rest
pub mod Rim
mod SetupExamples
pub mod Slanted
pub mod SlantedRow
pub mod SlantedVertex
pub mod Slim
pub mod SlimEnds
pub mod SlimRho
mod SpotExamples
pub mod Steep
pub mod TriedCells
pub mod TriedForms
pub mod TriedRoots
