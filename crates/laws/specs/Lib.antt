pub mod Tabled
pub mod Division
pub mod Value
