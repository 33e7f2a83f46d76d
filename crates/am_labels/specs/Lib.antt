pub mod Texts
pub mod LabelSets
pub mod LabelLaws
pub mod Printing
pub mod Letters
pub mod LabelTexts
pub mod inside
