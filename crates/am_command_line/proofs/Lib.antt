pub mod GivenArguments
pub mod Options
