pub mod Copied
pub mod InMemory
pub mod InWorld
pub mod Stopped
pub mod StoppedUnion
