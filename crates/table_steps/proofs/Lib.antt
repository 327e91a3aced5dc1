pub mod Lists
pub mod Sizes
pub mod Accepted
pub mod Marks
pub mod Names
pub mod Created
pub mod Uuids
pub mod SameRegions
pub mod SameChanges
pub mod SameSteps
pub mod OneStep
pub mod Places
pub mod KnownRegions
pub mod Fresh
mod Examples
mod Rows
mod ChangeRows
pub mod FreeLists
pub mod AcceptedChanges
pub mod AcceptedReleases
pub mod SomeStep
pub mod Initialised
pub mod Made
pub mod Destroyed
pub mod Renamed
pub mod Released
pub mod Replies
pub mod Unready
