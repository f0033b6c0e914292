pub mod Numerals
pub mod Cutting
pub mod Chaining
pub mod Numbering
pub mod Appending
pub mod Endings
pub mod Letters
pub mod Standing
pub mod Answering
mod Naming
