pub mod Endings
pub mod Tellings
