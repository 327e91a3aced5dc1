pub mod Guids
pub mod Intervals
pub mod Keys
pub mod Modes
pub mod Replies
