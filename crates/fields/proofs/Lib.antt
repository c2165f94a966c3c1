-- Laws of the calls over the fields of a link.
pub mod OverFields
pub mod Told
