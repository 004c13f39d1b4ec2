pub mod Signed
pub mod Sizes
pub mod Down
pub mod Sums
