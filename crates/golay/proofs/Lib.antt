pub mod Linear
pub mod Flips
pub mod Least
pub mod Clear
pub mod Near
pub mod Only
