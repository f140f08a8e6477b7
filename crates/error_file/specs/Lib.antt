pub mod ErrorFile
pub mod Steps
