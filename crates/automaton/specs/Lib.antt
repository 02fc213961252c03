pub mod Call
pub mod Steps
pub mod Promises
