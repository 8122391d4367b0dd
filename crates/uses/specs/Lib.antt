pub mod Alone
pub mod Serves
pub mod Status
