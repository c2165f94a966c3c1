-- The turns of the loop over a lent record.
pub mod Turns
