pub mod Samples
pub mod Machines
pub mod Noted
pub mod Windows
