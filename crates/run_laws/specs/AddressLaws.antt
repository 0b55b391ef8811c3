pub mod Addresses
pub mod Laws
