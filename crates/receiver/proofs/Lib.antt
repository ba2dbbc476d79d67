pub mod Taken
pub mod Gather
pub mod Pieces
pub mod Whole
