pub mod Judging
pub mod Modes
pub mod Registers
pub mod Thresholds
