pub mod AddressLaws
pub mod IsinLaws
pub mod Worked
