pub mod Members
pub mod Setups
pub mod Text
pub mod Turns
