pub use Rattle.am_labels.specs.Texts
pub use Rattle.am_labels.specs.LabelSets
pub use Rattle.am_labels.specs.Letters
pub mod MatcherTexts
pub mod Matchers
pub mod PlainPatterns
pub mod MatcherLaws
pub mod inside
