pub mod Slices
pub mod Passed
pub mod Drawn
pub mod Outcome
pub mod Settling
pub mod Amended
