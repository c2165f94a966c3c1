-- What a round's opening says, over number arrays.
pub mod Opens
