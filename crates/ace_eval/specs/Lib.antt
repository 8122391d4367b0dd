pub mod Truth
pub mod Evaluation
pub mod Aces
pub mod Access
