pub mod Looks
pub mod Signals
pub mod Dumps
pub mod Written
