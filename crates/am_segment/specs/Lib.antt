pub mod Segments
pub mod inside
