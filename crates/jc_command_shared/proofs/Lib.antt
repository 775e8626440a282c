pub mod FirstLine
pub mod Buffering
mod Folders
