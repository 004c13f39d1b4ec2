pub mod Order
pub mod Rounds
pub mod Gaps
pub mod Parts
pub mod Sixteenths
