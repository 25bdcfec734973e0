pub mod Names
pub mod Judged
pub mod Walking
pub mod Counting
