pub mod Follows
pub mod Moves
pub mod Refuted
