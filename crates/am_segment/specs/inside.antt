pub mod Fields
pub mod Ownership
pub mod Shares
