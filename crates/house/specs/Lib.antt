pub mod Sound
pub mod View
pub mod Runs
pub mod Figures
