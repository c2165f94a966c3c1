-- Laws of the page's calls.
pub mod Again
pub mod Laid
pub mod Mapped
pub mod Outcomes
pub mod Whole
