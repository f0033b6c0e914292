pub mod Plain
pub mod Lettering
pub mod Refilling
pub mod Spelling
pub mod Smallness
pub mod Pairing
pub mod Telling
pub mod Outcomes
