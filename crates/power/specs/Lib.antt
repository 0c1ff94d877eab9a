pub mod View
pub mod Calls
