pub mod Splices
pub mod Held
pub mod Placed
pub mod Sums
pub mod Posted
pub mod Lending
mod Rows
