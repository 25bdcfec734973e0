pub mod Meaning
pub mod Counting
pub mod Spelling
pub mod Rows
