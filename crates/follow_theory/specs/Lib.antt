pub mod Equations
pub mod Follow
