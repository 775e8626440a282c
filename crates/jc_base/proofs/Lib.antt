pub mod Cut
pub mod Sets
pub mod TextLemmas
pub mod First
pub mod EntryTexts
