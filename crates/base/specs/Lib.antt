pub mod Lists
pub mod Grid
