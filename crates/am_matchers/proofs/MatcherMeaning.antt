-- Facts about the words of specs/Matchers.antt.
pub mod Readings
pub mod OneMatcher
pub mod Patterns
pub mod Searching
pub mod Choices
pub mod PlainPatterns
