-- Definitions that only the crate's own functions cite.
pub mod Fields
pub mod LaneRows
