pub mod Manners
pub mod Played
