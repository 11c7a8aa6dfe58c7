pub mod Whole
pub mod Agreed
pub mod Refuted
