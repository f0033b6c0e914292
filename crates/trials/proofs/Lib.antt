mod Deciding
mod Closing
mod Quoting
mod Ranging
mod Testing
