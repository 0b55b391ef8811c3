pub mod Entering
pub mod Starting
pub mod Adopting
pub mod Cases
