pub mod Joining
pub mod Known
pub mod Sizes
pub mod Sums
