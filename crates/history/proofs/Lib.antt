pub mod Cash
pub mod Facts
pub mod Opening
pub mod Refused
