mod Holders
pub mod Acts
pub mod Added
pub mod Printed
pub mod Reasons
pub mod Runs
pub mod Turns
