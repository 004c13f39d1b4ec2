pub mod Cutting
pub mod Permutes
pub mod Outside
pub mod Wrong
