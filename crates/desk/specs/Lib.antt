-- How a run ends, and what is told of its classes then.
pub mod Ending
pub mod Told
