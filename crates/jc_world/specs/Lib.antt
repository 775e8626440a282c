pub mod State
pub mod Event
pub mod Stepped
pub mod Kept
pub mod Schedule
pub mod Machine
pub mod World
pub mod Given
