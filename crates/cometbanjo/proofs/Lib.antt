-- Laws of the exported calls.
pub mod Calling
pub mod Outcomes
pub mod Runs
pub mod Listed
