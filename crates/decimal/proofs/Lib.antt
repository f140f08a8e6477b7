pub mod DecimalLaws
pub mod ZeroLaws
pub mod Worked
