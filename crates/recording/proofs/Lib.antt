pub mod Rows
pub mod Verdicts
pub mod Blocks
pub mod Refusals
pub mod Refuted
pub mod Cases
