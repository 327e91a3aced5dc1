pub mod Found
pub mod Seated
pub mod Marked
pub mod Slots
pub mod Sorted
pub mod Regioned
pub mod Taken
pub mod Ordered
pub mod CountedSpaces
mod Leading
pub mod Neighbours
pub mod Standing
pub mod Pendings
pub mod Reached
mod Passing
pub mod ByPosition
pub mod ChangedModules
pub mod LostLabels
pub mod Counted
pub mod Walked
pub mod Looped
pub mod Stepped
pub mod AreaFlips
pub mod RoomSums
pub mod FreeSpace
pub mod AllFollow
pub mod Reserved
pub mod Follows
