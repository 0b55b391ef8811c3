pub mod Again
pub mod Takes
pub mod Written
pub mod Forms
pub mod Laws
pub mod Spoken
