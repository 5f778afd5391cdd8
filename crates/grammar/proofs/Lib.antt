pub mod Cutting
pub mod Lender
pub mod Reading
pub mod Spelled
