pub mod Tokens
pub mod Walks
