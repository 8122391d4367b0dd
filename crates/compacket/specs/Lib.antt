pub mod Frames
pub mod Spelling
pub mod Orders
