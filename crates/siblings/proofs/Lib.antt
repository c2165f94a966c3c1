-- The drift of two siblings, over any run of the library.
pub mod OneLeaf
pub mod ClosedSound
pub mod Steps
pub mod Between
pub mod SideBySide
pub mod BoundMet
