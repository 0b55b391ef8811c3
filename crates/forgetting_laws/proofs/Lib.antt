pub mod AgreeingMarks
pub mod Forgetting
