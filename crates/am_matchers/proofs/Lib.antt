pub mod MatcherTexts
pub mod MatcherMeaning
