pub mod Blank
pub mod Ordered
pub mod Found
pub mod Stores
pub mod Unopened
pub mod Stopped
pub mod Left
