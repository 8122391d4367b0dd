pub mod Evaluations
pub mod AceLemmas
