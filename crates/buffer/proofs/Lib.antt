pub mod Filling
pub mod Lawfulness
pub mod Rounds
pub mod Spelling
