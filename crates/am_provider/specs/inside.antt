-- Definitions over private fields, which only code of this crate cites.
pub mod Subscribed
pub mod Advances
pub mod Slices
pub mod Shelves
pub mod Records
pub mod Entries
pub mod Endings
pub mod Gatherings
pub mod Vouched
