pub mod Rule
pub mod Places
pub mod Calls
