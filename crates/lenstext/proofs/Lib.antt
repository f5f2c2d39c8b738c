pub mod Units
pub mod Lines
pub mod Words
pub mod Cutting
pub mod Numbered
