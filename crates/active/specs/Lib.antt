-- What is known of an active set before a round opens.
pub mod Known
