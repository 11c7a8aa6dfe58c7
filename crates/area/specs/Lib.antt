pub mod Written
pub mod Read
pub mod Claims
pub mod Cases
