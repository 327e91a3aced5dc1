pub mod Windows
pub mod FreeSlots
pub mod Texts
pub mod Sizes
pub mod Usable
pub mod WrittenBits
pub mod Behind
