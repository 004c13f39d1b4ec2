pub mod Version
pub mod Reply
