-- Definitions that only code of this crate cites.
pub mod RouteCodes
pub mod RouteSizes
pub mod MatchFaults
pub mod DurationParts
