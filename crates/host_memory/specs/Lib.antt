pub mod Access
pub mod Window
pub mod WindowLaws
pub mod Windows
pub mod Memory
pub mod HeaderLaws
pub mod DeliveryLaws
pub mod OrderLaws
