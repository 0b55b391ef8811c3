mod Actions
pub mod Header
pub mod Lives
pub mod Matching
pub mod Setups
pub mod Sizes
pub mod Valid
pub mod SmallSets
