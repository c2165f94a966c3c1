pub mod Table
pub mod Outcomes
pub mod Listed
