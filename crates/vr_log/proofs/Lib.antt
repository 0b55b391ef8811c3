pub mod Logs
pub mod Tallies
pub mod Equal
pub mod Steps
pub mod Valid
