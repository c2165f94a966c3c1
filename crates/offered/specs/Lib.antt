-- What a packet would be promised if it came now.
pub mod Offer
