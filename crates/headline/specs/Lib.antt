pub mod Steps
pub mod Transfers
pub mod Denials
pub mod Methods
pub mod NoTrace
