pub mod Addresses
pub mod Profiles
pub mod Sums
