pub mod Live
pub mod Printing
pub mod Programs
pub mod Replays
pub mod Runs
pub mod inside
