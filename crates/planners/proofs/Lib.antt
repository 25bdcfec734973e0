pub mod Openings
pub mod Planners
pub mod Lent
pub mod Walk
pub mod Bare
pub mod Compare
pub mod Orderless
pub mod Grid
