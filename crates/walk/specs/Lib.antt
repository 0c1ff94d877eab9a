pub mod Still
pub mod Copies
pub mod Finding
pub mod Stepping
pub mod Paths
