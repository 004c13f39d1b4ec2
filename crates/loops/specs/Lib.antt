pub mod Loops
pub mod Sweep
