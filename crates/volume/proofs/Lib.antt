pub mod Outcome
pub mod References
pub mod Slices
pub mod Reckoned
pub mod Laws
pub mod Amended
pub mod AsAmended
