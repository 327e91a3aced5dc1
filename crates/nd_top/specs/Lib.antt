pub mod Words
pub mod Labels
pub mod Stops
pub mod Runs
pub mod Lines
pub mod Ends
