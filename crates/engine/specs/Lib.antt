pub mod Ask
pub mod Call
pub mod Demands
pub mod Steps
pub mod Runs
