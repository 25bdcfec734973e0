pub mod Tested
