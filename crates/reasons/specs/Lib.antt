-- Why a leaf sends nothing: the four reasons, the answer, and what each reason promises.
pub mod Reason
pub mod Answer
pub mod Promise
