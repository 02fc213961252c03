pub mod Subset
pub mod Meaning
pub mod Parsed
pub mod Limits
pub mod Looks
