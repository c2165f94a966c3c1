-- The totals of a link in lent tables.
pub mod WorkedOut
