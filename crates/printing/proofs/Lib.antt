mod Refusing
mod Leaving
mod Quoting
mod Carding
mod Lengths
mod Bounding
mod Reporting
mod Uniqueness
