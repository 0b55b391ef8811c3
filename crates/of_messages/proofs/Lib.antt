pub mod Ports
pub mod Again
pub mod ActionsTaken
pub mod Takes
pub mod Forms
pub mod Laws
pub mod Written
pub mod Fronts
