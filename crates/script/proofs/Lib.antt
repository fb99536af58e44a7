pub mod Blocks
pub mod Counting
pub mod Plain
pub mod Scanning
pub mod Storing
