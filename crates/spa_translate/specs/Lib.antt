pub mod Woven
pub mod Pairs
pub mod Faults
pub mod Laid
pub mod Places
pub mod Kept
pub mod Runs
