pub mod Stills
pub mod Copying
pub mod Finding
pub mod Stepping
pub mod Paths
