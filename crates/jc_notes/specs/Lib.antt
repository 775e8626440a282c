pub mod Changed
pub mod Each
pub mod Failing
pub mod Found
pub mod Lines
pub mod Printed
pub mod Texts
