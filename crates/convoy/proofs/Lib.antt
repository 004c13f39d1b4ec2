pub mod Together
pub mod Corners
pub mod Calls
pub mod Laws
pub mod Passes
