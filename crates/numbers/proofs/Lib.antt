pub mod Decimal
pub mod Wording
