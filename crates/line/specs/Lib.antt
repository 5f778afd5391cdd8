-- Definitions that the contracts of the crate cite.
pub mod Places
pub mod Lines
pub mod Tables
