pub mod Arguments
pub mod Expected
pub mod Forms
pub mod Kinds
pub mod Numbers
pub mod Words
