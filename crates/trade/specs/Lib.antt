pub mod Trade
pub mod Instrument
