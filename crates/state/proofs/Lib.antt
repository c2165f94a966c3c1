-- The proofs of the crate: the laws of queues, of their bytes, of marks and of the lengths of lists, what the steps on a queue mean,
-- accounts in two lists.
pub mod Queues
pub mod Bytes
pub mod Marks
pub mod Counting
pub mod Shapes
pub mod Meaning
pub mod Zips
