pub mod Bits
pub mod AccessBits
mod RowsAccess
