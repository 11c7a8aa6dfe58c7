pub mod Setup
pub mod Values
pub mod Table
pub mod Request
pub mod Fields
pub mod Ranges
pub mod Claims
pub mod Cases
