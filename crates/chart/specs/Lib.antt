pub mod Chart
pub mod Engines
pub mod Mistakes
pub mod Cases
