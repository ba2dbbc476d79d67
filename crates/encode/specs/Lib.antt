pub mod Lich
pub mod Bodies
pub mod Symbols
pub mod When
