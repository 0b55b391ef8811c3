pub mod Installed
