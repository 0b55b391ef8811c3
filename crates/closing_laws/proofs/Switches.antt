-- What a turn of a switch does: it stays served, whichever message of its primary it draws.
pub mod Saying
pub mod Sending
pub mod AckTurns
pub mod CommandTurns
pub mod Served
pub mod SwitchAcked
pub mod SwitchAsked
pub mod SwitchCommanded
pub mod SwitchKeeps
