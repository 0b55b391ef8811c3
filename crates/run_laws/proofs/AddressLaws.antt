pub mod Lists
pub mod Members
pub mod Settling
pub mod Controllers
pub mod Switches
pub mod Journals
