pub mod Projection
pub mod Reading
pub mod Laws
