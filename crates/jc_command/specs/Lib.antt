pub mod Failed
pub mod Notes
pub mod Run
