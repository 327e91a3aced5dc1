pub mod Entries
pub mod Contents
pub mod Found
pub mod Labels
