pub mod Texts
pub mod Index
pub mod Steps
pub mod Worked
