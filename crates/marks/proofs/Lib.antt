pub mod Copying
pub mod Marking
pub mod Calling
pub mod Replaying
pub mod Keeping
