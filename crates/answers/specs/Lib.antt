-- What the calls of a run answer, as numbers.
pub mod Reply
pub mod Burst
pub mod Steps
