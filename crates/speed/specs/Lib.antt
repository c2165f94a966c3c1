-- What the timed loops do.
pub mod Openings
pub mod Timed
