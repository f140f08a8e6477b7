pub mod Identifier
pub mod Isin
