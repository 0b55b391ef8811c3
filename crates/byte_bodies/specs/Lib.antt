pub mod Bare
pub mod Framed
pub mod SameSteps
pub mod Typed
