pub mod Listing
pub mod Twin
pub mod OpenPool
