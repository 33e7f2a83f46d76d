-- Definitions that only code of this crate cites.
pub mod Pairs
pub mod SharedTexts
pub mod Spans
