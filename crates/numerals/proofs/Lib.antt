pub mod Capped
pub mod Decimal
