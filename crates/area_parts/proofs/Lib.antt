pub mod Got
pub mod Anew
pub mod Storing
pub mod Exact
