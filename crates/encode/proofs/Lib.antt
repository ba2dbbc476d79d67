pub mod Words
pub mod Coded
pub mod Fields
pub mod Pairs
pub mod Answers
pub mod Exactly
