pub mod Lists
pub mod Fold
