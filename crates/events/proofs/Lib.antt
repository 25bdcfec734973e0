pub mod Found
pub mod Writing
pub mod Told
pub mod RoundTrip
pub mod Widths
pub mod Calls
pub mod Pieces
