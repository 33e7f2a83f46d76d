pub mod Blocks
pub mod Crosses
pub mod Fronts
mod Keys
mod Names
mod Shares
pub mod Pairs
pub mod Values
