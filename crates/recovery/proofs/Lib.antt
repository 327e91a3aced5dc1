pub mod Counting
pub mod Pending
pub mod Full
pub mod Swept
pub mod Healed
