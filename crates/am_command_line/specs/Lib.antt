pub mod Arguments
pub mod ArgumentsFaults
pub mod ConfigCodes
pub mod FirstLines
pub mod Options
pub mod Refusals
pub mod Statuses
