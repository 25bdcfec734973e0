pub mod Laxity
