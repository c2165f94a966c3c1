-- Laws of the exported burst.
pub mod Outcomes
pub mod Runs
