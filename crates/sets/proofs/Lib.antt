-- The proofs of the crate: the digits of a number, and the laws of sets that other crates cite.
pub mod Bits
pub mod Laws
