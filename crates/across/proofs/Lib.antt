pub mod Turned
pub mod Facing
pub mod Down
pub mod Choices
pub mod Filling
