pub mod Written
pub mod Calls
pub mod Block
pub mod Refusals
pub mod Claims
pub mod Mistakes
pub mod Cases
