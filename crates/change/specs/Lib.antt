pub mod Plans
pub mod Scanning
