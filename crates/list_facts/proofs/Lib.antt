pub mod Elements
pub mod Prefixes
pub mod Places
