mod HexTexts
mod Digits
mod Heads
mod Numerals
mod SameWords
mod FrontWords
mod Sectors
mod WrongWords
pub mod SpellingLaws
pub mod LineLaws
pub mod PortLineLaws
pub mod WholeWords
pub mod NumberWords
pub mod HexWords
pub mod VerbNames
pub mod ItemWords
pub mod ReadLines
pub mod GoodLines
pub mod PortReadLines
pub mod GoodPortLines
pub mod FieldFaults
pub mod BadLines
