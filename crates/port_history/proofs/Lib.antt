pub mod Zeros
pub mod Tests
pub mod Sizes
pub mod Fises
pub mod Acted
pub mod Kept
pub mod KeptLaw
pub mod Bits
pub mod RegisterProofs
pub mod AnswerProofs
pub mod TakeProofs
pub mod FedProofs
pub mod FullProofs
pub mod Pages
mod Rows
mod RowsSession
pub mod EntryProofs
