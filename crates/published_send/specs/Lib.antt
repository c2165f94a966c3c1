-- What a whole send of the second engine over lent arrays says.
pub mod Under
pub mod Whole
