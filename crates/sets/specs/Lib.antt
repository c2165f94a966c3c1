-- The specs of the crate: sets of classes in a 64-bit number.
pub mod Set
