mod Wording
mod Stating
mod Lining
mod Counting
mod Playing
mod Uniqueness
mod Reporting
