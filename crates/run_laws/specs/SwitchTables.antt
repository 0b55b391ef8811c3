pub mod Acts
pub mod Changes
pub mod Laws
