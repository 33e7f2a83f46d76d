pub mod Working
pub mod WholeRuns
pub mod Owed
