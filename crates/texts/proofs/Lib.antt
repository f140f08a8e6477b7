pub mod TextLaws
pub mod IndexLaws
pub mod HandedLaws
pub mod Worked
