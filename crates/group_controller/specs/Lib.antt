pub mod State
pub mod Mails
pub mod Settling
pub mod Rules
pub mod Acting
pub mod Turns
