pub mod Cases
pub mod ProvingSet
pub mod Edges
pub mod Neighbours
pub mod Ledger
pub mod Said
pub mod Accepted
