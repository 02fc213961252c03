pub mod Numbering
pub mod Abnf
pub mod Exercises
pub mod Writes
