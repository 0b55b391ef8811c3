pub mod Places
pub mod Hops
