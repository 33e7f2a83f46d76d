-- Definitions that only code of this crate cites.
pub mod Sources
pub mod Indexes
pub mod Places
pub mod LeadingTargets
pub mod Searches
