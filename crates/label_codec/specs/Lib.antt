pub mod Offsets
pub mod Labels
pub mod Names
pub mod Flags
pub mod ModuleLabels
pub mod ModuleChanges
