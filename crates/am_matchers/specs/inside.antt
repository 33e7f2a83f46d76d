-- Definitions that only code of this crate cites.
pub mod Choices
pub mod Comparisons
pub mod Searches
pub mod SplitAnswers
