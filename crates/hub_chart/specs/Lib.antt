pub mod HubChart
pub mod Mistakes
