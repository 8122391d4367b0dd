pub mod Names
pub mod AuditText
pub mod Words
