pub mod Listing
pub mod Lengths
pub mod Uniqueness
mod Faults
pub mod Reporting
