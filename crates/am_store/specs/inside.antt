-- Definitions that only private functions cite.
pub mod Blocks
pub mod Changed
pub mod Journals
