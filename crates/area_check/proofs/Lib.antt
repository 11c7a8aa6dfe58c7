pub mod Rows
pub mod Sized
pub mod Parts
pub mod Ties
