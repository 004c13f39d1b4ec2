pub mod Patterns
pub mod Faces
