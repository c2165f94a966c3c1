-- What the calls of the second engine say beside their contract.
pub mod Calls
