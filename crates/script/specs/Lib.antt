pub mod Answers
pub mod Counts
pub mod Tables
pub mod Texts
