pub mod Nexts
pub mod Named
pub mod Results
pub mod Reading
pub mod Taking
pub mod Turning
pub mod Putting
pub mod LostAnswers
