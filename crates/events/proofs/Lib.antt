pub mod Answering
pub mod Ending
pub mod Narrowing
pub mod Holding
pub mod Living
pub mod Lengthening
pub mod Searching
pub mod Uniqueness
