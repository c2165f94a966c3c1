-- The laws of an offer.
pub mod Offering
