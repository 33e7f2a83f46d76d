pub mod LabelSets
pub mod Spans
pub mod Printing
pub mod LetterTexts
pub mod LabelTexts
