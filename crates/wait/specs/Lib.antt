-- What the bounded wait is stated with.
pub mod Wait
