pub mod Words
pub mod Table
pub mod Written
pub mod Read
pub mod Cases
pub mod Claims
