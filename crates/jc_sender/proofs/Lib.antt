pub mod Acknowledging
pub mod AnswersRead
pub mod Gathering
pub mod Outcomes
pub mod Room
pub mod Sources
pub mod Streams
pub mod Taking
pub mod Uploads
pub mod Verdicts
mod Written
pub mod Told
