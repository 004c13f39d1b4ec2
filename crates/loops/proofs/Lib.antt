pub mod Slices
pub mod Held
pub mod Sweep
pub mod Round
pub mod Lowest
