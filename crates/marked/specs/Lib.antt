-- The marked cases: what a run gives, and the table.
pub mod Run
pub mod Table
