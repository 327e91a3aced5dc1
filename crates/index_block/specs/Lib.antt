pub mod Geometry
pub mod Blocks
pub mod Current
pub mod Bitmap
pub mod Written
