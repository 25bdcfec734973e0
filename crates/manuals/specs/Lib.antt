pub mod Manuals
