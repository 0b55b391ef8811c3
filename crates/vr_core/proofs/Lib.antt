pub mod Keeping
pub mod Lasting
