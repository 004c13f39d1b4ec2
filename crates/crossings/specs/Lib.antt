pub mod Crossings
pub mod Filling
