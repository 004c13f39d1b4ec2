pub mod Reckons
