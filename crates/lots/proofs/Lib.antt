-- Lemmas on lots, from products of prices up to the laws of an arrival.
pub mod Products
pub mod Fits
pub mod Steps
pub mod Runs
pub mod Sums
pub mod Keeping
pub mod Moves
pub mod Grosses
pub mod Oldest
pub mod Laws
pub mod Results
