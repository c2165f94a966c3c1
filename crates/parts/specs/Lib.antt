-- A run by parts.
pub mod Part
pub mod Steps
