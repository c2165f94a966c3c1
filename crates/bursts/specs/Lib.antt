-- The exported burst.
pub mod Bursting
