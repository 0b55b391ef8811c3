pub mod Marks
pub mod Folding
pub mod Counted
pub mod Ledger
pub mod Few
