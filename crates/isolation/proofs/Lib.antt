pub mod Setting
pub mod Polls
pub mod Steps
pub mod Isolated
pub mod Refuted
pub mod Cases
