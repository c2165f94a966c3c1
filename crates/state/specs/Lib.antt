-- The link's state (R86 to R100): accounts, queues, what a state means.
pub mod Account
pub mod Mark
pub mod WayUp
pub mod Queue
pub mod State
