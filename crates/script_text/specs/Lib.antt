pub mod Digits
pub mod Replies
