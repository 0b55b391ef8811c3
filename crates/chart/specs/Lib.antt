pub mod Arrows
pub mod Carried
