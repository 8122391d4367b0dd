pub mod Discovery
pub mod Checksums
pub mod Identity
pub mod ErrorLog
pub mod DevicePages
pub mod Protocols
pub mod Settings
pub mod StackReset
