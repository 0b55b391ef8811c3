pub mod Kept
pub mod Valid
pub mod Ended
