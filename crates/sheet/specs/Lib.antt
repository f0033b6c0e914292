pub mod Pairs
pub mod Laws
pub mod Masks
pub mod Cards
pub mod Strikes
pub mod LentLaws
pub mod MaskLaws
pub mod CardLaws
