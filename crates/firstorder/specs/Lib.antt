pub mod Advances
pub mod ParaxialLaws
pub mod Samples
pub mod Stepped
pub mod Tracks
pub mod Workings
