-- What the timed run by parts lays.
pub mod Laid
