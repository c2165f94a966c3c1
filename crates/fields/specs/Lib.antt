-- The calls over the fields of a link.
pub mod Fields
