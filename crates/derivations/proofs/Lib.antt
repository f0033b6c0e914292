pub mod Minima
pub mod Deriving
pub mod Costing
pub mod Having
pub mod Running
pub mod Choosing
pub mod Plugging
pub mod Supporting
