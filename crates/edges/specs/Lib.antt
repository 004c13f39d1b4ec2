pub mod Tables
pub mod Searching
pub mod Noting
pub mod Surveyed
