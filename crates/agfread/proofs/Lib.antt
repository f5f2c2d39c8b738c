pub mod Steps
pub mod Lines
pub mod Growth
pub mod Books
pub mod Coefficients
