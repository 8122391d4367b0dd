pub mod Appended
pub mod Readings
pub mod Opening
pub mod Places
pub mod OrderLaws
