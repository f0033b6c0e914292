pub mod Ends
pub mod Refusals
pub mod Prunes
pub mod Quotes
pub mod Cards
