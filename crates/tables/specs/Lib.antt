pub mod Reporters
pub mod Currencies
pub mod Tables
