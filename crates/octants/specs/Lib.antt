pub mod Octants
