-- Lemmas, from the order on places up to what a table holds after each change.
pub mod Counting
pub mod Wiping
pub mod Order
pub mod Lines
pub mod Searching
pub mod Moving
pub mod Changes
pub mod Choosing
