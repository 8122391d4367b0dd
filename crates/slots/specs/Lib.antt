pub mod Layout
pub mod Header
pub mod Table
pub mod Fetch
pub mod Lending
