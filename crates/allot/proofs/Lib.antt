pub mod Fair
pub mod Requests
pub mod Settling
pub mod Answers
pub mod Theorems
pub mod OneAnswer
