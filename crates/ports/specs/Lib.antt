pub mod Ports
pub mod Sweep
pub mod Bitmap
pub mod Claims
