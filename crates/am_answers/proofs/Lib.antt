pub mod Notifying
pub mod Same
pub mod Runs
