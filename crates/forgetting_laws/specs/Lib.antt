pub mod Marks
pub mod Switches
