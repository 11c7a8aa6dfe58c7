pub mod Key
pub mod Same
pub mod Claims
pub mod Lengths
pub mod Buffer
pub mod Standing
pub mod Valid
pub mod Words
