-- Definitions that only code of this crate cites.
pub mod ChildIndexes
pub mod Searches
pub mod GroupLists
pub mod GroupMaps
pub mod DispatcherCodes
