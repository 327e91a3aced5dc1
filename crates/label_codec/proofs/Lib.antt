pub mod Ascii
pub mod Slots
pub mod Written
pub mod Counting
