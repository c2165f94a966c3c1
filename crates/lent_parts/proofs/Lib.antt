pub mod Again
pub mod AskArrive
pub mod AskSend
pub mod Fields
pub mod Lends
pub mod Loans
pub mod Returns
pub mod Turning
