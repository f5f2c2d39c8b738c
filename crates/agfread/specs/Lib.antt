pub mod Records
pub mod Walked
pub mod Readers
