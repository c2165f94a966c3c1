-- A link taken apart into numbers and number arrays.
pub mod Fields
pub mod Rounds
pub mod Arrivals
