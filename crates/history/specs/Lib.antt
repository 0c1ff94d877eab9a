pub mod Events
pub mod History
pub mod Laws
pub mod Example
pub mod Counts
