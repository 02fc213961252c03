pub mod Listing
pub mod Sizing
pub mod Counting
pub mod Placing
pub mod Passes
pub mod Ending
pub mod Kept
pub mod Known
