pub mod Spelling
pub mod Standing
pub mod Putting
pub mod Telling
pub mod Returning
