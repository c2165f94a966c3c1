pub mod Laying
pub mod Outcomes
pub mod Listing
