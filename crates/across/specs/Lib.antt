pub mod Across
pub mod Filling
