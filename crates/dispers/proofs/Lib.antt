pub mod Below
pub mod Faults
pub mod Joined
pub mod Lenses
pub mod Planes
pub mod Sound
