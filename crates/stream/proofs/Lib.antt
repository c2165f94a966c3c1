-- Laws of a run read window by window.
pub mod Longer
pub mod Begins
pub mod Ends
pub mod Windows
