pub mod Numbers
pub mod Fields
pub mod Header
pub mod Lich
pub mod Sequence
pub mod When
