pub mod Noting
pub mod Shown
