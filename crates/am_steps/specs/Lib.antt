pub mod Answers
pub mod Laws
pub mod Needed
pub mod Runs
pub mod Soundness
pub mod States
pub mod Steps
pub mod inside
