-- What a refusal says, and checks in a fixed order.
pub mod Check
