-- The laws of an ask over lent arrays.
pub mod Laws
pub mod Reaches
pub mod Flagged
