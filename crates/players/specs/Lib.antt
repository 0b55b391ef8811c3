pub mod Mails
pub mod Turns
