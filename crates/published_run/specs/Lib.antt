-- The lines of a whole run of the second engine.
pub mod Steps
