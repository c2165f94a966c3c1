-- The engine as published: its state, asking, visits, a send; the state that it stands for; when it is sound.
pub mod Asking
pub mod Visiting
pub mod Settled
pub mod Sound
pub mod Second
pub mod Runs
pub mod Contract
pub mod Steps
