pub mod Jig
pub mod Trials
