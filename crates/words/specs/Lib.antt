pub mod Word
pub mod Step
