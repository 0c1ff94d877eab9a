pub mod Telling
pub mod Scans
pub mod Setting
