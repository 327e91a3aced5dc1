pub mod Found
pub mod Alike
pub mod Telling
pub mod Standing
pub mod Changing
pub mod Success
pub mod Viewing
pub mod OneReply
