pub mod Records
pub mod Cookies
pub mod Rules
pub mod Platforms
pub mod Sound
