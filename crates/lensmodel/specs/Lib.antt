pub mod Call
pub mod Claims
pub mod Equations
pub mod Files
pub mod Paraxial
pub mod Rows
pub mod Setup
pub mod Texts
