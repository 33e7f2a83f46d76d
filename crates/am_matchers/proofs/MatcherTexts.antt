-- Facts about the words of specs/MatcherTexts.antt.
pub mod Values
pub mod Splits
pub mod Cuts
pub mod EachText
pub mod RoundTrip
