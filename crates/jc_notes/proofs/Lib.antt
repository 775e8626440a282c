pub mod Failures
pub mod Found
pub mod Fronts
pub mod InFolder
pub mod LinesRead
pub mod Printing
pub mod Turns
pub mod Working
