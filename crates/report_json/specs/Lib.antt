pub mod Numbers
pub mod Words
pub mod Refusals
pub mod Lines
pub mod Texts
pub mod Listing
