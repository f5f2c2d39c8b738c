pub mod Choice
pub mod Count
pub mod Held
pub mod Memory
pub mod MemoryState
pub mod Standard
pub mod Taken
pub mod TakenLaws
