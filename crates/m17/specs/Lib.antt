pub mod Given
pub mod Addresses
pub mod Fec
pub mod Header
pub mod Frames
pub mod Gathered
pub mod Receiving
