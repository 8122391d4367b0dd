pub mod Hands
pub mod Counts
pub mod Awaits
pub mod Receipts
pub mod Rule
pub mod Seats
