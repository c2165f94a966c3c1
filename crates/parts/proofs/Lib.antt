pub mod Parts
pub mod Happenings
