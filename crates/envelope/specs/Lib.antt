pub mod Pieces
pub mod Body
pub mod Envelope
pub mod Written
