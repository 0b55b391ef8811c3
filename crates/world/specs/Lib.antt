pub mod Debts
pub mod World
pub mod Refusals
pub mod Actors
pub mod Standing
pub mod Folds
