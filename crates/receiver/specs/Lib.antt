pub mod See
pub mod Receiver
pub mod Numbers
pub mod Runs
