pub mod Leaving
pub mod Ports
pub mod Turns
mod Ticks
