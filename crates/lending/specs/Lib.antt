pub mod Closings
pub mod Exchanges
pub mod Masks
pub mod Cards
pub mod Rows
pub mod RowLaws
