pub mod PortActs
pub mod PortTold
pub mod PortRuns
pub mod PortTurns
