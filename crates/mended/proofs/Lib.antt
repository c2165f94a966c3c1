pub mod Least
pub mod Downward
pub mod Listing
pub mod Answers
pub mod Theorems
pub mod Worked
pub mod Written
pub mod Listed
