-- Definitions that only code of this crate cites.
pub mod Rooms
pub mod Given
pub mod Drafts
pub mod Streams
