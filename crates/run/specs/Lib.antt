-- The lines of a whole run.
pub mod Event
pub mod Run
