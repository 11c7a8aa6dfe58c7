pub mod Words
pub mod Reading
pub mod Exact
pub mod Cases
