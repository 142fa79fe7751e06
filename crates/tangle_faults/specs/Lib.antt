pub mod Faults
pub mod FaultLine
