pub mod Kinds
pub mod Fields
pub mod Places
pub mod Lines
pub mod Pages
pub mod Reading
pub mod Readings
