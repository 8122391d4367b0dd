mod Counts
pub mod Going
