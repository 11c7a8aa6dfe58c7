pub mod Said
pub mod Why
pub mod Claims
pub mod ExplainedRuns
pub mod Bytes
pub mod Cases
pub mod Mistakes
