pub mod Refusal
pub mod Serving
pub mod Worker
