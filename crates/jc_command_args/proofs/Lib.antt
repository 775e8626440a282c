pub mod Collecting
pub mod Commands
pub mod Outcomes
