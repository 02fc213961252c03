pub mod Parts
pub mod Noted
pub mod Exercises
