pub mod Callsign
pub mod Address
pub mod When
