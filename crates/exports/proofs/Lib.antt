pub mod Telling
pub mod Making
pub mod Calling
pub mod One
pub mod RulesTold
pub mod Needing
pub mod AutomataCalled
pub mod MarkCalled
