pub mod Alphabet
pub mod Number
pub mod Six
pub mod EachKind
pub mod RoundTrip
pub mod Exactly
