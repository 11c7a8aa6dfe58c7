pub mod Naming
pub mod Isolation
pub mod Disturbances
pub mod Cases
