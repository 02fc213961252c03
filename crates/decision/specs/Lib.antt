pub mod Call
pub mod Own
pub mod Steps
pub mod Onward
pub mod Promises
