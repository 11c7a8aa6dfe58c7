pub mod Bytes
pub mod Payload
