pub mod ItemLemmas
pub mod RunLemmas
pub mod ExchangeLemmas
pub mod FamilyLemmas
pub mod ColumnLemmas
pub mod CopyLemmas
pub mod ListLemmas
