pub mod Bits
pub mod Lines
pub mod Rows
pub mod Call
pub mod Levels
pub mod Promises
