pub mod Climbing
pub mod Twins
pub mod TwinSlots
