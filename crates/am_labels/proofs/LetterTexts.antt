-- Facts about the words of specs/Letters.antt.
pub mod Stretches
pub mod Names
pub mod Spelling
pub mod Quotes
