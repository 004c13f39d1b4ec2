pub mod Reckoned
pub mod Stored
pub mod Bound
pub mod Spots
pub mod OnEdge
pub mod InBox
