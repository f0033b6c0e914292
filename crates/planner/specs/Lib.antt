pub mod Boards
pub mod Charts
pub mod Codes
pub mod Writing
pub mod Pushes
pub mod Counts
pub mod Outcomes
