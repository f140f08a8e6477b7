pub mod Underlying
pub mod Cases
