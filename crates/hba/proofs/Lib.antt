pub mod Words
pub mod Tags
pub mod Works
pub mod Turns
pub mod Failures
pub mod Shown
pub mod Active
pub mod BlockByBlock
pub mod Counts
pub mod Current
pub mod CurrentLaw
pub mod BitsOfWords
pub mod BitByBit
pub mod RaisedBits
pub mod QueuedBits
pub mod LinkBits
pub mod OwnWrites
pub mod SoftwareResets
pub mod AccessRows
pub mod Reaches
pub mod OwnBits
pub mod TaskBits
pub mod Addresses
pub mod Served
pub mod Rests
pub mod Orders
mod Rows
mod RowsSoftwareReset
mod RowsAccess
