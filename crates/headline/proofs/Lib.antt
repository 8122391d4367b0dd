pub mod Came
pub mod Waits
pub mod KeptTransfers
pub mod Landed
pub mod Unmoved
pub mod TransferLaws
pub mod AuditLaws
pub mod Rising
pub mod MethodLaws
pub mod Forgotten
pub mod NoTraceLaws
mod Scenes
mod RowsTransfers
mod RowsItems
mod RowsMethods
mod RowsNoTrace
