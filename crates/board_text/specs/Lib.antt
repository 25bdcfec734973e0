pub mod BoardText
