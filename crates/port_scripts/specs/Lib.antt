pub mod PortActs
pub mod PortReasons
pub mod PortEffects
pub mod PortCourses
