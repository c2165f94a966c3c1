pub mod Reading
pub mod Pairs
pub mod Taken
pub mod Places
