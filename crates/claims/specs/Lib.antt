-- What a recording of another box is judged to be.
pub mod Recording
pub mod Recorded
pub mod Parts
pub mod Steps
