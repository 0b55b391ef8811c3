mod Alone
mod Ending
pub mod Following
pub mod Stopping
