pub mod Kept
pub mod One
pub mod Verdict
pub mod Counts
pub mod Room
