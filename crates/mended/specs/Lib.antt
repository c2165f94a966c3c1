-- Mending a plan whose shares don't add up: the mended weights, and the answer.
pub mod Weights
pub mod Answer
pub mod Steps
