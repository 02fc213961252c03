pub mod Runs
pub mod Parts
pub mod Answers
pub mod Examples
