-- Definitions that only code of this crate cites.
pub mod PartTexts
