pub mod Noted
pub mod Placed
