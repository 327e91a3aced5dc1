pub mod Flips
pub mod Stored
pub mod Stops
pub mod Passes
pub mod Together
pub mod Sweeps
pub mod Releases
