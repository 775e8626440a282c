pub mod Explanations
pub mod Objects
pub mod Terminal
pub mod Texts
pub mod Words
pub mod Writers
