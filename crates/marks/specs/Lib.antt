pub mod Copies
pub mod Slips
pub mod Marks
pub mod Lives
pub mod Replays
