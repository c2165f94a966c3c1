-- Laws of the run without text.
pub mod Events
pub mod Bursts
pub mod Lent
pub mod KindLaws
pub mod Listed
