pub mod Carrying
pub mod Carried
pub mod Sizes
pub mod SameSteps
pub mod Twins
pub mod Framed
