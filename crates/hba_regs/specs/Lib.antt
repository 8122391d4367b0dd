pub mod Registers
pub mod AccessTypes
