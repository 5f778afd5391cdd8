-- What the contracts of this crate, and of the crates above it, speak of.
pub mod Calendar
pub mod CalendarLaws
pub mod Opening
pub mod Phases
pub mod Places
pub mod Records
pub mod Refusals
pub mod States
pub mod Words
