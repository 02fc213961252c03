pub mod Told
pub mod Call
pub mod Pairs
pub mod Rules
pub mod Needed
pub mod Automata
pub mod Marks
