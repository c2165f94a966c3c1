-- Weights and bytes, and what a packet costs (R8 to R18).
pub mod Unit
pub mod Cost
