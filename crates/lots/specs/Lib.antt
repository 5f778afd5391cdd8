-- What the contracts of this crate, and of the crates above it, speak of.
pub mod Lots
pub mod Closing
pub mod Sums
pub mod Laws
pub mod Figures
