pub mod Accesses
pub mod OneWindow
pub mod SeveralWindows
pub mod Deliveries
pub mod Orders
mod Rows
