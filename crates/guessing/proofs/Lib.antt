pub mod Calling
pub mod Nesting
