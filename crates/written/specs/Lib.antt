-- A plan written back: the bytes of a tree, and what the writer says.
pub mod Bytes
pub mod Writing
