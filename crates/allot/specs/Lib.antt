-- Which rates a plan gives (R68 to R85): what classes request, how a class shares out what it has, and the answer.
pub mod Request
pub mod Share
pub mod Rates
pub mod Answer
pub mod Steps
