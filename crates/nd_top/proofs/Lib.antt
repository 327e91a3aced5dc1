pub mod Handles
pub mod Started
pub mod Finished
pub mod Listings
