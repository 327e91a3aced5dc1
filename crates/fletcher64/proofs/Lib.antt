pub mod Running
pub mod Holes
pub mod Written
