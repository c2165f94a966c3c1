-- What the drift of two siblings is stated with.
pub mod Siblings
