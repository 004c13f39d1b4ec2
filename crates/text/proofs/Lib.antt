pub mod Digits
pub mod Stores
pub mod Patterns
pub mod Lines
pub mod Examples
