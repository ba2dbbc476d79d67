pub mod Frames
pub mod Slots
pub mod Demand1
pub mod Demand2
pub mod Demand3
pub mod EachSlot
pub mod FromC
