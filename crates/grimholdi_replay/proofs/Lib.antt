pub mod Kept
pub mod Entry
pub mod Through
