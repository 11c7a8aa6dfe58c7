pub mod States
pub mod Timers
pub mod Bits
pub mod ChangeBits
pub mod EnableChange
pub mod Named
pub mod Claimed
pub mod Refuted
