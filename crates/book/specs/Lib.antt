pub mod Ranges
pub mod BookSaid
pub mod Statements
pub mod Fields
pub mod Lines
pub mod Texts
pub mod Drafts
pub mod Writing
