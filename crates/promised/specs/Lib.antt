-- What a plan promises of a packet's wait (R237 to R241).
pub mod Promise
