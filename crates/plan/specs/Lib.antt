-- The plan's bytes and the event records (R40 to R67).
pub mod Kind
pub mod Record
pub mod Reader
pub mod Event
pub mod Entry
pub mod Rows
pub mod Steps
