pub mod AndThen
pub mod Calls
pub mod Laws
pub mod Lines
pub mod Numbers
pub mod Parts
pub mod Readings
pub mod Reasons
