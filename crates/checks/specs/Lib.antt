pub mod Record
pub mod Booking
pub mod Verdict
