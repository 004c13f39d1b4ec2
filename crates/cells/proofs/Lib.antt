pub mod Entries
pub mod Octants
pub mod Written
pub mod Laying
