pub mod Answer
pub mod Grammar
pub mod Words
