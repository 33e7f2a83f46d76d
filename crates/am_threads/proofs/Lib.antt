pub mod Lines
pub mod Owed
pub mod WholeRuns
