-- Lemmas on the calendar.
pub mod Months
pub mod Days
pub mod Slots
pub mod Numbers
