pub mod Events
pub mod Lines
