pub mod Below
pub mod Identities
pub mod Runs
