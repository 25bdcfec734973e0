pub mod Orders
