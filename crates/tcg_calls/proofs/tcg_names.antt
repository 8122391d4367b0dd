mod Numbers
mod Joins
mod BothWays
mod ColumnsBothWays
mod FamilyLemmas
