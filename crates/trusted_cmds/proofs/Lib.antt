pub mod Apart
pub mod Profiles
pub mod Sizes
pub mod Spellings
