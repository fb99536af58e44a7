pub mod Along
pub mod Faith
