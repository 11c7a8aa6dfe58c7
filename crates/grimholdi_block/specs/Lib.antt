pub mod Writing
pub mod Writer
