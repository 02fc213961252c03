pub mod Suffixes
pub mod Walk
pub mod Steps
pub mod Due
pub mod Whole
