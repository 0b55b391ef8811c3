pub mod Places
pub mod Index
pub mod Entries
