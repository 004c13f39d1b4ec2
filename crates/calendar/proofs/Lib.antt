pub mod Periods
pub mod Pass
pub mod Calls
pub mod Laws
pub mod Outcome
