pub mod Conversion
pub mod Lines
pub mod Words
