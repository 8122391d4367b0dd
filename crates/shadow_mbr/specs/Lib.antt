pub mod Stored
pub mod Places
pub mod Erasure
pub mod Same
