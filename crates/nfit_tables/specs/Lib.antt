pub mod Spelling
pub mod Proper
pub mod Reading
pub mod Fitting
pub mod Limits
pub mod Marks
