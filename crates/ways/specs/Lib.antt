pub mod Shows
pub mod Linked
