pub mod FirstLines
pub mod WholeTexts
