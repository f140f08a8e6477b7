pub mod ByteLaws
pub mod PartLaws
pub mod OrderLaws
pub mod NumberLaws
pub mod WordLaws
pub mod SearchLaws
pub mod SameLaws
