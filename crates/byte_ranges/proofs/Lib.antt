pub mod Patched
pub mod Numbers
pub mod Fields
