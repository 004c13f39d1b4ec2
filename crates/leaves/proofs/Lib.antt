pub mod Slices
pub mod Leaves
pub mod Records
