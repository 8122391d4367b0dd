pub mod Tper
pub mod Items
pub mod Seen
