pub mod Steps
pub mod Least
pub mod Members
pub mod Rounds
pub mod Meaning
pub mod Answer
pub mod Finite
