pub mod Memory
pub mod Numbered
pub mod Crossed
