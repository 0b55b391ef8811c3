pub mod Rows
pub mod Denied
pub mod Installed
pub mod Firewalls
