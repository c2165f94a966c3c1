pub mod Read
pub mod Kin
pub mod Children
