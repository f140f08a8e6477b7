pub mod UnderlyingLaws
pub mod Worked
