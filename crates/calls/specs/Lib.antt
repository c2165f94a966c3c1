-- What the calls of the library answer: a fresh link, an arrival and a send; and what a run of them is.
pub mod Fresh
pub mod Arrival
pub mod Send
pub mod Progress
pub mod Run
pub mod Panel
