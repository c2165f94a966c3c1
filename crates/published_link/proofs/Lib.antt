-- The laws of the second engine's calls.
pub mod Judging
pub mod Answers
pub mod Wholes
pub mod Listed
