-- What the contracts of this crate, and of the crates above it, speak of.
pub mod Books
pub mod View
pub mod Given
pub mod Laws
