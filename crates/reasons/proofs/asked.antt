mod Mets
pub mod Values
