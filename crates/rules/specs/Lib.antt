-- The rules of sending (R119 to R146) over what a state means, and what their laws are stated with.
pub mod Active
pub mod Sizes
pub mod Opening
pub mod Sending
pub mod After
pub mod Wide
pub mod Waits
pub mod Within
pub mod Steps
