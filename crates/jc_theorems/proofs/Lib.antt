pub mod Causes
pub mod TakenUp
pub mod NoFailures
pub mod Results
pub mod Left
pub mod Settled
