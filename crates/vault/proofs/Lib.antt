pub mod Clearing
pub mod Postings
