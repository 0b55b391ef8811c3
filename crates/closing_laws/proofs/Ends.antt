-- How a closing ends: its last attempt leaves nothing undone, a majority is a quorum, or a log is full.
pub mod Attempts
pub mod LastAttempts
pub mod Quorate
pub mod FittingLogs
pub mod Limits
pub mod Rested
