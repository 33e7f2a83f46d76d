pub mod Replays
pub mod Lives
pub mod PartTexts
