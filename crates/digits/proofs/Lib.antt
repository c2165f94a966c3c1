pub mod Decimals
pub mod Laying
