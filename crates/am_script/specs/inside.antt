-- Definitions that only code of this crate cites.
pub mod Counting
pub mod Intakes
pub mod AlertTokens
pub mod LineMembers
pub mod Parts
pub mod Following
