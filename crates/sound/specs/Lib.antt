-- When a state is sound.
pub mod Sound
pub mod Steps
