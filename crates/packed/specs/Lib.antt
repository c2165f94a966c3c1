-- What the case programs read out of a packed command, and a value stored into one number of a tree. No rule of its own.
pub mod Command
pub mod Stored
