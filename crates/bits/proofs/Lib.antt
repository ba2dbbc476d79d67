pub mod Back
pub mod Setting
pub mod Getting
pub mod Reading
pub mod Packed
