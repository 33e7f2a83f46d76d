pub mod Dates
pub mod MergingRules
pub mod Printing
pub mod PlainMoments
