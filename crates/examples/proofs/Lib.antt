pub mod Starred
pub mod Drawings
pub mod Divided
pub mod Volumes
