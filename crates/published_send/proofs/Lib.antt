-- The laws of a whole send of the second engine over lent arrays.
pub mod Rounding
pub mod Starts
pub mod Ends
