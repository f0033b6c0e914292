pub mod Numbers
pub mod Layers
pub mod Faults
