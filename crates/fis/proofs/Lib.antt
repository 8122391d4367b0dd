pub mod Flags
pub mod Followed
