-- What an ask over lent arrays says.
pub mod Lent
pub mod Coming
pub mod Right
