pub mod Seen
pub mod Step
pub mod Runs
pub mod Opened
pub mod Demand3
