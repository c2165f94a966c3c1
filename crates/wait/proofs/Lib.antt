-- The bounded wait, over any run of the library; and the stand-ins that the contracts reject.
pub mod RoundedUp
pub mod Credit
pub mod RootGains
pub mod Falls
pub mod InOrder
pub mod OneCall
pub mod AnyRun
pub mod Accepted
pub mod BoundedWait
pub mod TwoLeaves
pub mod StandIns
