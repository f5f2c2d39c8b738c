mod Between
mod Faults
mod Great
mod Norms
mod Zones
