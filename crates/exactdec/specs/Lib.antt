pub mod Mantissas
pub mod Reading
pub mod Stages
