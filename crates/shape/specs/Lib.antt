-- A tree as numbers that can be lent.
pub mod Shape
pub mod Steps
