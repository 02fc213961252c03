pub mod Codes
pub mod Steps
pub mod Rounds
pub mod Due
pub mod Levels
