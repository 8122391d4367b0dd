pub mod Loads
pub mod Rounds
pub mod Steps
pub mod Works
