pub mod OneReason
pub mod InLink
pub mod Answers
pub mod Kept
pub mod Promises
