pub mod Acts
pub mod Sources
pub mod Kept
pub mod Explanations
pub mod Turns
pub mod Effects
pub mod DriveCourses
