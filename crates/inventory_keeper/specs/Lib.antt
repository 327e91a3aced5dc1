pub mod Rows
pub mod Tags
pub mod Faults
pub mod Lists
pub mod InMap
