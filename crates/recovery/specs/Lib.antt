pub mod Recovery
pub mod Steps
