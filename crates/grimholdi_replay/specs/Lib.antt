pub mod Entry
pub mod Replays
