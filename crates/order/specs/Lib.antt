pub mod Letters
pub mod Limits
pub mod Statements
pub mod Texts
pub mod Steps
