pub mod Ends
pub mod LabelLines
