-- Laws of a check of a recording.
pub mod Moving
pub mod Checking
pub mod Composing
pub mod Whole
pub mod Recordings
pub mod Accepted
pub mod InParts
pub mod InPlace
pub mod Worked
pub mod Listed
