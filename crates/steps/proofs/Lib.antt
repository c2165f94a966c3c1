pub mod Climbs
pub mod Seeks
pub mod Goings
pub mod Wholes
pub mod Rounding
pub mod Departures
pub mod Children
