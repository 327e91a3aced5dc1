pub mod Faults
pub mod Statuses
pub mod Texts
pub mod Saying
pub mod Sources
pub mod Starting
