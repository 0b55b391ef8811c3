pub mod Acting
pub mod Answering
pub mod Controlling
pub mod Events
pub mod Finishing
pub mod Settling
pub mod CommittedAlone
