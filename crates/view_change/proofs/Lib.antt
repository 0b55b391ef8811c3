pub mod Checks
pub mod Sound
pub mod Valid
