pub mod Banks
pub mod Boards
pub mod Draws
pub mod Gates
pub mod Reads
pub mod Writes
