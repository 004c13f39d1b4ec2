pub mod GreatestOf
