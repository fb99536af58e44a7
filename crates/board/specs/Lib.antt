pub mod Played
pub mod Signals
