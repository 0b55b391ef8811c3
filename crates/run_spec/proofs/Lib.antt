pub mod Bodies
pub mod Entries
pub mod Pools
pub mod Pasts
pub mod Saves
pub mod Playing
pub mod Group
