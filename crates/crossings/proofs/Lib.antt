pub mod Leaves
pub mod Twelve
pub mod Filling
