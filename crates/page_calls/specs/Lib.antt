-- What the calls of the planner's page say, and what their number arrays mean.
pub mod Record
pub mod Kept
pub mod Calls
