pub mod Answers
pub mod Host
pub mod State
pub mod Agreement
pub mod Live
pub mod Built
