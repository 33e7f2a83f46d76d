pub mod Reading
pub mod Putting
pub mod Sessions
pub mod Unanswered
pub mod Compacting
pub mod Turning
pub mod live
