pub mod Fields
pub mod Faults
pub mod Features
pub mod FisLayouts
pub mod Listings
pub mod DeviceFields
pub mod Carried
pub mod Decodings
