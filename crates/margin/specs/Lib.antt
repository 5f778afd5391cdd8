-- What the contracts of this crate, and of the crates above it, speak of.
pub mod Bounds
pub mod Chosen
pub mod Cover
pub mod Figures
pub mod Rounding
pub mod Units
