pub mod Writing
pub mod Exact
