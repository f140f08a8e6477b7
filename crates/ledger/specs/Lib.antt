pub mod Row
pub mod Sound
pub mod Lookup
pub mod Slots
pub mod Quantity
