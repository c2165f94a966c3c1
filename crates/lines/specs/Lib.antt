pub mod Line
pub mod Laid
