-- What the exported calls say, what their numbers mean, and a run of them.
pub mod Numbers
pub mod Calls
pub mod Run
