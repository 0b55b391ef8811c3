pub mod Ageing
pub mod Held
pub mod Kept
pub mod Lasting
pub mod Ordered
pub mod Remaining
pub mod Standing
pub mod Timing
