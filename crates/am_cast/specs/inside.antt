-- Definitions that only the crate cites.
pub mod Cursors
pub mod Filling
pub mod KeyRows
pub mod LaneAccounts
pub mod Moving
pub mod Posters
pub mod RingPlaces
pub mod Starts
pub mod Tags
pub mod Waiting
pub mod WriterStates
