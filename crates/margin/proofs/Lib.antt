-- Lemmas of this crate.
pub mod Lots
pub mod Products
pub mod Weights
