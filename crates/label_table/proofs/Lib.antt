mod Examples
mod Rows
pub mod ListTests
pub mod WholeUuids
pub mod Leaving
pub mod Confined
pub mod Equations
pub mod Losing
pub mod Staging
pub mod Changing
pub mod Order
pub mod Listed
pub mod Clashes
pub mod StatusLaws
pub mod Partition
pub mod OneFlip
pub mod Settled
pub mod Initialising
pub mod Releasing
pub mod SoundPlatforms
pub mod OnlyLabels
mod Instances
pub mod TableChanges
