pub mod Reading
pub mod Standing
pub mod Answering
pub mod inside
pub mod Serving
