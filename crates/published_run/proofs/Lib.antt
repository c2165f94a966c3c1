-- The laws of a whole run of the second engine.
pub mod Lines
