pub mod Clients
pub mod Owed
pub mod Runs
pub mod Waits
