pub mod States
pub mod Steps
pub mod Ledgers
pub mod Lives
pub mod Searches
