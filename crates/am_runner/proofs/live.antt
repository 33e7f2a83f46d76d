pub mod Lines
pub mod OneByOne
