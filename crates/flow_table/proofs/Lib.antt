pub mod Keys
pub mod Modified
mod Tables
mod Chosen
