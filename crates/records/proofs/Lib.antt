pub mod Bytes
pub mod Patterns
pub mod Keys
pub mod Search
pub mod Found
pub mod Listed
