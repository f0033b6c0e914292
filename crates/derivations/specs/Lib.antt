pub mod Least
pub mod Trees
pub mod Costs
pub mod Runs
pub mod Ties
pub mod Contexts
pub mod Support
