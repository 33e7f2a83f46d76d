-- Facts about the words of specs/LabelSets.antt.
pub mod LabelMaps
pub mod Searches
