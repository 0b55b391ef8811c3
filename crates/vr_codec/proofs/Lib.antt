pub mod Steps
pub mod Again
pub mod Takes
pub mod Written
pub mod Valid
pub mod Laws
