-- Lemmas on books, from where results stand up to the laws of booking.
pub mod Rows
pub mod Arrivals
pub mod Weights
