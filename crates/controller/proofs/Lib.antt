pub mod Rooming
