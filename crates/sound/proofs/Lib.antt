pub mod Active
pub mod Totals
pub mod Counts
pub mod Views
pub mod Kin
pub mod Places
pub mod AnyMarks
pub mod Lent
