pub mod Checks
pub mod Cash
pub mod Entries
pub mod Movement
pub mod Journal
