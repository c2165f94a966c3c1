pub mod Shape
pub mod Lengths
pub mod Laying
pub mod Records
pub mod WriteBack
pub mod ReadBack
pub mod Answers
pub mod BigEndian
