-- The class tree (R21 to R39): what a class is, sums over classes, the plan rules, the round size.
pub mod Class
pub mod Sum
pub mod Below
pub mod Rules
pub mod Size
