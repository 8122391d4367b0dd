pub mod Lists
pub mod Names
pub mod Samples
pub mod Waves
pub mod Dumps
pub mod Looks
pub mod Bars
