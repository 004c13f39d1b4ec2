pub mod Tables
pub mod Marking
pub mod Corners
pub mod Order
pub mod PassedTables
pub mod Amended
