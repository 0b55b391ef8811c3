pub mod Lists
pub mod Parts
pub mod Steps
pub mod Turns
pub mod Bodies
