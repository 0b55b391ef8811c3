pub mod Agreed
pub mod Valid
