pub mod Written
pub mod Named
pub mod Split
pub mod Claims
