pub mod Counts
mod Taken
pub mod SameMatches
pub mod SmallMatches
pub mod Places
