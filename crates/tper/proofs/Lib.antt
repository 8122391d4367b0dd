pub mod Carried
pub mod Configs
pub mod Items
pub mod KeptBeside
mod Keeping
mod Responses
mod Sends
pub mod Seen
