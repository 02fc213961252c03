-- What the contracts say. Assumes nothing.
pub mod Listed
pub mod Order
pub mod Queue
pub mod Output
pub mod Answer
pub mod Collected
pub mod Exercises
