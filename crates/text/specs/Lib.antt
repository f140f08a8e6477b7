pub mod Text
pub mod Class
pub mod Bytes
pub mod Part
pub mod Order
pub mod Number
pub mod Search
