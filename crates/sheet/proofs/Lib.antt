pub mod Sets
pub mod Bits
pub mod Replacing
pub mod Flips
pub mod Writes
pub mod Pins
pub mod Steps
