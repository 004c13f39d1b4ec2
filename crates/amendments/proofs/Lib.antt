pub mod Refusals
pub mod Records
pub mod InForce
pub mod Working
pub mod Stray
pub mod Calls
pub mod Laws
pub mod AsAmended
