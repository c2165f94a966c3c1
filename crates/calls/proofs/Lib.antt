-- Laws of the calls and of runs.
pub mod Arrivals
pub mod Departures
pub mod FreshLinks
pub mod Progress
pub mod Runs
pub mod Panels
pub mod Listed
