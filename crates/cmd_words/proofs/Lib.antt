pub mod FirstPiece
pub mod Behind
pub mod Ascii
