pub mod Page
pub mod Number
pub mod Lent
