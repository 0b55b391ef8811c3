pub mod Audit
pub mod Following
pub mod Issuing
pub mod Judging
pub mod Names
pub mod Orders
pub mod Received
