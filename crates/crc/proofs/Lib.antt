pub mod Parts
pub mod Own
