pub mod Striking
pub mod Closing
pub mod LentMasks
pub mod LentCards
pub mod Exchanging
