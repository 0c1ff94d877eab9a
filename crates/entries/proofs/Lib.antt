pub mod Entries
pub mod Highest
