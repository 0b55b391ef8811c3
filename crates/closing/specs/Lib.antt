pub mod Views
pub mod Closing
