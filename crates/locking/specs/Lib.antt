pub mod Range
pub mod Ranges
pub mod Starts
pub mod Verdict
