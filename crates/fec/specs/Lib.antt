pub mod Code
pub mod Nearest
pub mod Kinds
pub mod When
pub mod Search
