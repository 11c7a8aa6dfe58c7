pub mod Tallying
pub mod Playing
pub mod Turning
pub mod Going
pub mod Blocks
pub mod Replays
pub mod ReplayRefuted
