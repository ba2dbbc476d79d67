pub mod Lich
pub mod Bodies
pub mod When
pub mod Symbols
