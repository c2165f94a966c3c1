-- The laws of totals in lent tables.
pub mod WorkingOut
pub mod Passing
pub mod Sounds
