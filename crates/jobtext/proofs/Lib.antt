pub mod Numbers
pub mod Widths
pub mod Growth
pub mod Offences
pub mod Steps
pub mod Lines
pub mod Ranges
