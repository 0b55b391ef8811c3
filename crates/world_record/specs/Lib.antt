pub mod Shows
pub mod Told
