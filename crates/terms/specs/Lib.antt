pub mod Terms
pub mod Capacity
pub mod Derivative
pub mod Marks
